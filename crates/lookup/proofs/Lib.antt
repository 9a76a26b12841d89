pub mod Shapes
pub mod Finds
pub mod Halving
