pub mod Texts
pub mod Alike
pub mod Parts
pub mod Merging
pub mod Keys
pub mod Accepted
