pub mod Blocks
pub mod Joining
pub mod Opening
pub mod Answering
pub mod Machine
pub mod Longest
pub mod Example
