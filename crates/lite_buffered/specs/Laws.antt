pub mod BufReader
pub mod BufWriter
pub mod Budgeted
pub mod Chain
pub mod Known
pub mod Repeat
pub mod SteadyWrite
pub mod Take
