pub mod Dividing
pub mod Degree
