pub mod Asking
pub mod Evaluation
pub mod Firing
pub mod Overlay
