pub mod Field
pub mod Map
pub mod Symbols
pub mod Answer
pub mod Operations
