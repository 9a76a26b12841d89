pub mod Turns
pub mod Loading
