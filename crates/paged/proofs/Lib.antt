pub mod PageEdges
pub mod PageExample
pub mod PageGoesOut
pub mod PageLength
pub mod PageSays
