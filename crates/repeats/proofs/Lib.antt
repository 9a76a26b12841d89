pub mod SearchLaws
pub mod NamedLaws
