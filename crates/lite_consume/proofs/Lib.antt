pub mod Given
pub mod PollSteps
