pub mod Leaping
pub mod Noting
pub mod Chaining
