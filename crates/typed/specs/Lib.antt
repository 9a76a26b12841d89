pub mod ByContent
