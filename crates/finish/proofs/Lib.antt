pub mod Yields
pub mod Finishing
pub mod Calling
