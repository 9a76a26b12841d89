pub mod Longs
pub mod ProductWords
pub mod Products
