pub mod Reading
pub mod DualWords
pub mod Degree
pub mod Described
pub mod Gathering
pub mod Leading
pub mod Rooms
pub mod Answering
