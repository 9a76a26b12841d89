pub mod Committing
pub mod Front
pub mod Noting
pub mod Taking
