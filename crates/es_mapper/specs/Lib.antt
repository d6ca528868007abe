pub mod Mapped
pub mod Mapping
pub mod Upcasts
