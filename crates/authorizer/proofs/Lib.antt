pub mod Calling
pub mod Answering
pub mod Demand3
pub mod Example
pub mod ExampleEntities
pub mod Again
pub mod ExampleAgain
