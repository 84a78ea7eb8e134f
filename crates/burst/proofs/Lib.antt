pub mod Working
pub mod Word
pub mod Loop
pub mod Answering
pub mod Listing
