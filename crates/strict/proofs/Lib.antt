pub mod Plain
pub mod Entities
pub mod Parents
pub mod Links
