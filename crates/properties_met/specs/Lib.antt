pub mod Registering
pub mod Unrefused
