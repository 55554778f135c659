-- Frames there and back, and entries on a reader.
pub mod Framing
pub mod Entries
pub mod Netstring
