pub mod Filled
pub mod Counted
pub mod Eights
pub mod Plus
