pub mod Copying
pub mod Handed
pub mod Handing
