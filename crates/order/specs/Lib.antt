-- What the contracts of this crate cite.
pub mod Law
pub mod Rows
pub mod Search
