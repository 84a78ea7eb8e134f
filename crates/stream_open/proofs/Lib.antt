pub mod Judging
pub mod Openings
pub mod Taking
