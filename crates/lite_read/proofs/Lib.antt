mod Items
mod Lacking
mod ReadLine
pub mod Refusals
mod Strings
mod TextSteps
mod Until
pub mod Appending
pub mod Cutting
pub mod Filling
pub mod FirstLine
pub mod Lanes
pub mod Texts
