pub mod Counted
pub mod Cuts
