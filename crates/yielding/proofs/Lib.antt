pub mod Turning
pub mod Accounts
pub mod Getting
pub mod Working
pub mod Stacking
pub mod Bringing
pub mod Finishing
