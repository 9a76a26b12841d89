pub mod Lines
pub mod Loops
pub mod Calling
pub mod Accepted
