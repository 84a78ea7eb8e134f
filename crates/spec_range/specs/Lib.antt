pub mod Fold
pub mod Table
