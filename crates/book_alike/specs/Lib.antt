pub mod Signed
pub mod Compared
