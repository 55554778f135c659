-- What clauses and proofs name, from one place: a crate that lists futures_lite alone writes
-- `Rattle.futures_lite.specs.Answers.{item}`.
pub mod Answers
pub mod Calls
pub mod Contexts
pub mod Copies
pub mod Families
pub mod Futures
pub mod Laws
pub mod Lines
pub mod Lists
pub mod Marks
pub mod Own
pub mod Ranks
pub mod Readers
pub mod Runs
pub mod Streams
pub mod Writers
pub mod Uses
