-- Lemmas of this crate.
mod Founds
mod Listings
mod Members
mod Numbers
mod Rooms
