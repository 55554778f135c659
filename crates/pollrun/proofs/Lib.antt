pub mod Ended
pub mod Joined
pub mod Pieces
pub mod Piped
pub mod Short
