-- What the contracts of this crate cite.
pub mod Applied
pub mod Change
pub mod View
pub mod Whole
