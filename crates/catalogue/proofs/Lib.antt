-- Lemmas of this crate.
mod Applies
mod Changes
mod Clears
mod Removes
mod Singles
