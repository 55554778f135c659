pub mod PollLimits
pub mod Tasks
