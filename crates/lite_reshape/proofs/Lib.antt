pub mod PollSteps
