pub mod Filling
pub mod Pieces
pub mod Phases
