pub mod Calling
pub mod Trying
