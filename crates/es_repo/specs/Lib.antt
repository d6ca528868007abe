pub mod Policies
pub mod Readings
pub mod Repository
pub mod Same
pub mod Snapshots
pub mod Verdicts
pub mod inner
