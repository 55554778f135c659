pub mod Both
pub mod Turns
