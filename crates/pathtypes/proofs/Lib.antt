pub mod PathSets
pub mod KnownSets
pub mod StepLaws
pub mod PlaceLaws
pub mod PathLaws
