pub mod Word
pub mod Division
pub mod CyclicCode
pub mod Alike
pub mod Lanes
pub mod Mixed
