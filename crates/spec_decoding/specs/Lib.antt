pub mod Matrix
pub mod Decode
pub mod Symmetry
