pub mod Answering
pub mod Crossing
pub mod Draining
pub mod Pacing
pub mod Ranges
pub mod Reading
pub mod Seeking
