pub mod Answers
pub mod Section
