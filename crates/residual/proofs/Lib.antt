pub mod Steps
pub mod Blocks
pub mod Meaning
pub mod Stack
pub mod Cases
pub mod Pushes
