-- A server of lent frames.
pub mod Uses
pub mod Responding
pub mod Turns
pub mod Serving
pub mod ServingLaws
pub mod ServingSteps
pub mod RankLaws
pub mod StepLaws
pub mod Performing
pub mod Replies
pub mod ReplyLaws
pub mod PendingLaws
