pub mod Globbing
pub mod Joining
pub mod Cases
