pub mod Finishing
pub mod Entities
