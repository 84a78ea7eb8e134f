pub mod Reached
pub mod Laws
pub mod Logging
