pub mod Line
pub mod Output
pub mod Machine
pub mod Example
