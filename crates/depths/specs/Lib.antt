pub mod Codes
pub mod Depths
