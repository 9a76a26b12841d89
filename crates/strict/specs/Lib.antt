pub mod Gives
pub mod Entities
