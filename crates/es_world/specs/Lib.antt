pub mod Answers
pub mod Laws
pub mod Steps
pub mod Told
pub mod World
pub mod inner
