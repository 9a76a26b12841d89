pub mod KindLaws
pub mod Walks
pub mod Sorts
pub mod Search
pub mod Remembered
