pub mod Laws
pub mod ByTag
pub mod Turns
pub mod Notes
pub mod Back
pub mod Rooted
pub mod Answered
