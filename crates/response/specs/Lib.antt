pub mod Verdicts
pub mod Naming
pub mod Printed
pub mod Runs
