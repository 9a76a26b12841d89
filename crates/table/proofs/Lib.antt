pub mod Rows
pub mod Frame
pub mod Held
pub mod Counts
