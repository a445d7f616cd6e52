pub mod Limits
pub mod Dataset
pub mod Stops
pub mod Readiness
