pub mod State
pub mod Part
pub mod Stepping
