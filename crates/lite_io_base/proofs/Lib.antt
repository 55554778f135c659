pub mod Afterwards
