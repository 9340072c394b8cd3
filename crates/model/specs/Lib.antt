pub mod Plain
pub mod Lists
pub mod Fits
pub mod Listing
pub mod Closure
pub mod Free
pub mod Standing
pub mod Laws
