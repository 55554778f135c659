pub mod Refusals
pub mod Runs
pub mod Tables
pub mod Taken
