pub mod Said
pub mod Rooms
pub mod Words
