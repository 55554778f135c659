pub mod Words
pub mod Records
pub mod Refusals
pub mod Runs
pub mod Laws
