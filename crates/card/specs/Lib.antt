-- What the contracts of this crate cite.
pub mod Entries
pub mod Fields
pub mod Kinds
pub mod Label
pub mod View
pub mod Written
