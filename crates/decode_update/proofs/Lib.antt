pub mod Counts
pub mod Search
pub mod Limits
pub mod Taking
pub mod Sole
pub mod Rule
pub mod Climbing
