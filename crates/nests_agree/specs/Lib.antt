pub mod Both
pub mod Lengths
pub mod Lines
pub mod Paced
