pub mod Again
pub mod TreeDepth
