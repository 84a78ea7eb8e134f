pub mod Answering
pub mod Rooms
