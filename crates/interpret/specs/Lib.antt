pub mod Sides
pub mod Nodes
pub mod Lines
