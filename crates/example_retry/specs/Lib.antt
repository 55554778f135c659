pub mod OnePoll
pub mod Outcome
pub mod OutcomeLaws
pub mod Reply
pub mod Retry
pub mod RetryLaws
