pub mod Raised
pub mod Summing
pub mod RowLeft
pub mod Digits
pub mod Whole
pub mod Listing
pub mod Rows
pub mod Received
