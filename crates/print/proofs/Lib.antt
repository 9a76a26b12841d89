pub mod Outs
pub mod Printing
pub mod Sending
pub mod Writing
