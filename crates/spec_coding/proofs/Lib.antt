pub mod Coder
