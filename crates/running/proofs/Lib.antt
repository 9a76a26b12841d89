pub mod Looking
pub mod Runs
