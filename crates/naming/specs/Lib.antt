pub mod Digits
pub mod Hash
pub mod Laws
pub mod Name
pub mod Order
pub mod Texts
