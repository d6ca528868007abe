pub mod Contents
pub mod Fuses
pub mod inner
