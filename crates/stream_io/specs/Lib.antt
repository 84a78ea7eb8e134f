pub mod Running
pub mod Answered
