-- Lemmas of this crate.
pub mod Digits
pub mod Laws
pub mod Bests
mod Sets
