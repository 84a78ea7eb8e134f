pub mod Book
pub mod Layout
pub mod Conditions
