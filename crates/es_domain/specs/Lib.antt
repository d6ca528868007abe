pub mod Decision
pub mod Effect
pub mod Faults
pub mod Fold
pub mod Readings
pub mod Steps
pub mod inner
