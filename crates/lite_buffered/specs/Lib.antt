pub mod BufReader
pub mod BufWriter
pub mod Budgeted
pub mod Chain
pub mod Laws
pub mod Repeat
pub mod Take
pub mod Uses
