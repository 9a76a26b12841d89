pub mod Decoded
pub mod KindSets
pub mod Rulings
pub mod Same
