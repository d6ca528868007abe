pub mod Pairs
pub mod Unsigned
