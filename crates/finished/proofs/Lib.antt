pub mod BreakingLine
pub mod FinishAgrees
pub mod FinishCall
pub mod FinishEdges
pub mod FinishEqual
pub mod FinishExample
