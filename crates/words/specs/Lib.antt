pub mod Log
pub mod Bits
