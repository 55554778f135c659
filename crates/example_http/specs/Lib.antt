pub mod Echo
pub mod Filling
pub mod Moving
pub mod Serving
pub mod Whole
