pub mod Preview
pub mod Promise
pub mod Tried
