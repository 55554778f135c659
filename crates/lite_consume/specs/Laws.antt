pub mod Agreeing
pub mod Consuming
pub mod Matching
pub mod Returning
