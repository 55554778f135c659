pub mod Agreeing
pub mod Collect
pub mod Gathering
pub mod Laws
pub mod Partition
pub mod TryCollect
pub mod Unzip
pub mod Uses
