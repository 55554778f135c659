-- Frames that are lent from the bytes of a reader.
pub mod Uses
pub mod Cutting
pub mod Lending
pub mod LendingLaws
