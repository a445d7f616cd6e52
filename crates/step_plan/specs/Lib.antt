pub mod Asked
pub mod Phases
pub mod Steps
