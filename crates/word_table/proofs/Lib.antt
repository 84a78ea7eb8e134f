pub mod Window
pub mod Halves
pub mod Rows
pub mod Tables
pub mod Sums
