pub mod Held
pub mod Reading
pub mod Answering
pub mod Room
