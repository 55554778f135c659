pub mod Armed
pub mod CalmWrite
pub mod Copy
pub mod Sink
pub mod WriteAll
