pub mod Marking
pub mod Turning
pub mod Gathering
pub mod Dual
pub mod Tallying
