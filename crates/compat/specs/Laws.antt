pub mod Collected
pub mod FromKit
pub mod ToKit
