pub mod FromKit
pub mod Laws
pub mod ToKit
pub mod Uses
