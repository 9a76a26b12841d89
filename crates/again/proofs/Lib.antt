pub mod AnswerAgain
pub mod DepthExample
pub mod DepthKept
pub mod DepthLimit
pub mod ExampleAgain
pub mod Quiet
pub mod ReadsInjective
pub mod RunAgain
