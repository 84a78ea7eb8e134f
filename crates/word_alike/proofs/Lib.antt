pub mod Signing
pub mod Comparing
