-- The bytes of an answer: how many there are, that they read back, what a call leaves in its buffers.
pub mod AnswerBack
pub mod AnswerLength
pub mod AnswerRead
pub mod Buffers
pub mod DigitsBack
pub mod ItemBytes
pub mod LinesBack
pub mod NodesStand
pub mod RowsBack
pub mod RowsGood
pub mod Shown
pub mod TreeBytes
pub mod TreesBack
pub mod WhyRead
