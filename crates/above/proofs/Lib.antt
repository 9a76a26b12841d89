pub mod Fits
pub mod Tops
