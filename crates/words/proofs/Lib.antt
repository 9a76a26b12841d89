pub mod Stores
pub mod Logs
pub mod Bits
