pub mod Chained
pub mod Collected
pub mod Rows
pub mod Anything
pub mod Readers
