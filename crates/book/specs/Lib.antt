pub mod Params
pub mod Opened
