pub mod Halted
pub mod Lent
pub mod Owned
pub mod Refused
pub mod Service
pub mod Stops
pub mod Strange
