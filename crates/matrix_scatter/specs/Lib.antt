pub mod Scatter
pub mod Fill
