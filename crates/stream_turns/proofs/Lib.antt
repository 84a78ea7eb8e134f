pub mod Finishing
pub mod Turns
