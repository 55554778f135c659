pub mod Statuses
pub mod Starting
