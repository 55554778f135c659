pub mod Receiving
pub mod Steps
pub mod Sums
pub mod Talks
pub mod Waits
