pub mod Bounded
pub mod Tested
