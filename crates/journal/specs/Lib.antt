pub mod Blocks
pub mod Backed
pub mod Steps
pub mod View
pub mod Appends
pub mod Formats
pub mod Keeps
pub mod Errors
