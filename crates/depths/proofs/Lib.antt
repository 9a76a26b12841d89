pub mod FormTable
pub mod DepthLaws
pub mod ThereLaws
