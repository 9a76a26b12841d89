pub mod Breaks
pub mod ByKey
pub mod Finish
pub mod Promise
pub mod Rising
