pub mod Heard
pub mod BoardRule
pub mod Ends
