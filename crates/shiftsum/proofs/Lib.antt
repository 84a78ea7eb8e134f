pub mod Room
pub mod Filled
pub mod Returned
