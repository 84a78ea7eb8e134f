pub mod Signature
pub mod Compared
