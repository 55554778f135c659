pub mod BothReaders
pub mod BothWriters
pub mod Collecting
pub mod LimitedPiece
pub mod Limits
pub mod Telling
pub mod Waited
pub mod Whole
