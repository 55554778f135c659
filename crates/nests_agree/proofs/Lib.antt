pub mod Appended
pub mod Found
pub mod FoundLengths
pub mod FoundLines
pub mod LinesRead
pub mod SameLengths
