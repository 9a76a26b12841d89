pub mod Lines
pub mod Places
pub mod Shapes
pub mod Made
pub mod Clear
