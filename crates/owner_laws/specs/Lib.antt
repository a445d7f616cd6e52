pub mod Strangers
pub mod ByArrivals
