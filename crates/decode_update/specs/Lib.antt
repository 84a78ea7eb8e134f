pub mod Column
pub mod Rule
