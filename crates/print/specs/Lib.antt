pub mod Out
pub mod Sent
pub mod Written
