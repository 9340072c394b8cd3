pub mod Chains
pub mod Sounds
pub mod Listings
pub mod Rows
pub mod Makings
