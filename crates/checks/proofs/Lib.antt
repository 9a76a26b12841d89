pub mod FoundLaws
pub mod LinkLaws
pub mod KindLaws
