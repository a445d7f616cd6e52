pub mod Least
pub mod Requests
pub mod Running
pub mod Stands
pub mod Ended
pub mod Walk
