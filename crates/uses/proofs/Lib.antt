pub mod UseLaws
pub mod UnderLaws
pub mod NotedLaws
