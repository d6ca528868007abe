pub mod Answers
pub mod Runner
pub mod inner
