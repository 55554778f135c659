pub mod Held
pub mod Pausing
pub mod Polled
pub mod Repeated
pub mod Unrefused
