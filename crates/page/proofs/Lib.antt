pub mod Columns
pub mod Paging
pub mod Rows
pub mod Showing
