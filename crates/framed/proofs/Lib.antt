-- Lemmas of the proofs.
pub mod Sent
mod Steps
mod Waits
mod Encoding
mod Serving
mod Collecting
mod Delimited
mod Lines
mod Heads
