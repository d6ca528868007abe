pub mod CrashImage
pub mod HandedOut
pub mod Held
pub mod Insert
pub mod Keeps
pub mod Puts
pub mod Selections
pub mod Stable
