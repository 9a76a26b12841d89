pub mod FinishLines
