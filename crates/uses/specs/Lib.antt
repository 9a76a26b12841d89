pub mod Uses
pub mod Under
