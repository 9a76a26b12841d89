pub mod Finding
pub mod Walking
