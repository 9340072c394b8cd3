mod Copying
pub mod Digits
pub mod Orders
pub mod Parts
pub mod Same
pub mod Words
