pub mod Tests
pub mod Fold
pub mod Table
pub mod Count
pub mod Loop
