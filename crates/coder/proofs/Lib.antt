pub mod Opening
pub mod Working
