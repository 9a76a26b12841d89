pub mod Leaps
pub mod Noted
pub mod Chains
