pub mod Products
pub mod Ranged
