pub mod Rows
pub mod Resuming
