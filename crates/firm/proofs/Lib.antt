pub mod Texts
pub mod Deciding
pub mod Calling
pub mod Quoting
pub mod Wording
