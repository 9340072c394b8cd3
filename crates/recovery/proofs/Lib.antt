pub mod Takes
pub mod Readings
pub mod Agreements
pub mod Recoveries
