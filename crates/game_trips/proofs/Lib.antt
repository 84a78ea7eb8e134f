pub mod Mixing
pub mod Accepted
pub mod Coded
pub mod OfBurst
