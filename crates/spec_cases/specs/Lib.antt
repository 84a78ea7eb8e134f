pub mod Books
pub mod Cases
