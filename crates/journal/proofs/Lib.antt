pub mod Backing
pub mod Cuts
pub mod Steps
pub mod Changes
pub mod Enterings
pub mod Layouts
