pub mod Duals
pub mod Lanes
