pub mod Kind
pub mod Rounds
