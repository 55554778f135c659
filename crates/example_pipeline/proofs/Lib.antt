pub mod Lines
pub mod Added
pub mod Taken
