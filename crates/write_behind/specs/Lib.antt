pub mod Behind
pub mod Order
