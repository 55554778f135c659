pub mod Fault
pub mod Job
pub mod Request
pub mod Served
pub mod Spelling
