pub mod Seen
pub mod Views
pub mod Ties
pub mod Steps
pub mod Seats
pub mod inner
