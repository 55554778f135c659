-- Lemmas of the proofs.
mod Reading
mod Back
