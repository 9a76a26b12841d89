-- Demand 3: two sheets that agree, and what the bytes of their answers confirm.
pub mod Demand3Answers
pub mod Demand3Bytes
pub mod Demand3Says
pub mod TwoSheets
