pub mod Run
pub mod Fits
pub mod Classes
pub mod Leaves
pub mod Steps
pub mod Gives
pub mod Joins
