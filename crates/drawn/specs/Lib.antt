pub mod TestLoad
