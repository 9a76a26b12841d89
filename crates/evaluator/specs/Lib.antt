pub mod Run
pub mod Gave
