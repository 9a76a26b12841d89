pub mod Called
pub mod Firm
pub mod Promise
