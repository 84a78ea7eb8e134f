pub mod Multiples
pub mod Rows
pub mod Window
