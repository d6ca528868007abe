pub mod Reader
pub mod Repository
pub mod Snapshots
pub mod Stored
