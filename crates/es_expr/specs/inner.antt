pub mod Evaluates
pub mod Seen
pub mod Walks
pub mod Weights
