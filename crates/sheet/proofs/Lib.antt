pub mod reading
pub mod content
pub mod running
pub mod answer
pub mod demand3
pub mod Theorems
