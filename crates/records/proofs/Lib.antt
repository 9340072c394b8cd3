-- Lemmas of this crate.
pub mod Apart
mod Climbs
mod Commits
pub mod Places
pub mod Finds
mod Needs
mod Registers
