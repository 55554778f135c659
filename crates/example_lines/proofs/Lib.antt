pub mod Kept
pub mod Sessions
