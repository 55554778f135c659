-- Lemmas of the proofs.
pub mod Shown
mod Lending
