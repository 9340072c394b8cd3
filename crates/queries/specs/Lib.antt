-- What the contracts of this crate cite.
pub mod Newest
pub mod Reach
pub mod Room
