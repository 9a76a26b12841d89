pub mod Lengths
pub mod Head
pub mod Nodes
pub mod Policies
pub mod Accepted
pub mod Run
pub mod Answer
pub mod Examples
