pub mod Words
pub mod Laying
pub mod Differing
