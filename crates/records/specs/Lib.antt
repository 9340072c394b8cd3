-- What the contracts of this crate cite.
pub mod Blank
pub mod Find
pub mod Laws
pub mod Needed
pub mod Orders
pub mod Push
pub mod Runs
pub mod View
