pub mod Typings
pub mod KindWalks
pub mod Declaring
