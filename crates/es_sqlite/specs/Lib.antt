pub mod Columns
pub mod Commits
