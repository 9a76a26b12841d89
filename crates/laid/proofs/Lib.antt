pub mod Copying
pub mod Laying
pub mod Standing
