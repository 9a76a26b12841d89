pub mod Showing
pub mod Input
pub mod Loading
pub mod Quoting
