pub mod Rows
pub mod Errs
pub mod Trees
pub mod Classes
pub mod Logs
