pub mod Sound
pub mod Accepting
pub mod Numbers
pub mod Known
pub mod Inputs
