pub mod Requests
pub mod Ahead
pub mod Ways
pub mod Arrivals
