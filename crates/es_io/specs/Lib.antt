pub mod Ahead
pub mod Documents
pub mod Front
pub mod LinesLeft
pub mod Next
pub mod Readings
pub mod Remains
