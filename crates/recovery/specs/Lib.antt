pub mod Loads
pub mod Loaded
pub mod Recovers
pub mod Errors
