pub mod Choosing
pub mod Lent
pub mod Opening
