pub mod Cuts
pub mod Index
