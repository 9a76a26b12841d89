pub mod Levels
pub mod Rulings
pub mod Operations
pub mod KeyRules
pub mod SeenSets
pub mod LinkLaws
pub mod Joined
