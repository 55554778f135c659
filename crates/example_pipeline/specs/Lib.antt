pub mod Laws
pub mod Pipeline
pub mod Runs
