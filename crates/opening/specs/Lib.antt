pub mod Opens
pub mod Promised
