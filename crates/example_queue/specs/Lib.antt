pub mod Queue
pub mod QueueLaws
pub mod Tasks
pub mod Transfer
pub mod TransferLaws
