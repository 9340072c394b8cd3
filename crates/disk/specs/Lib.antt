pub mod Meaning
pub mod Row
pub mod Plain
pub mod Faults
