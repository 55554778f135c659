pub mod Each
pub mod Fronts
pub mod Items
pub mod Sources
pub mod Steps
