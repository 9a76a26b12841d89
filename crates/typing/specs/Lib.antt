pub mod Links
pub mod Rules
