pub mod Request
pub mod Store
pub mod Service
pub mod Session
