pub mod Count
pub mod Terms
pub mod RowZero
pub mod Listed
pub mod Sums
