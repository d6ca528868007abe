pub mod Begins
pub mod Counts
pub mod LinesTraced
pub mod Ran
pub mod Serves
pub mod Stays
pub mod Taken
