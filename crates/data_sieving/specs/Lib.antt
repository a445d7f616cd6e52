pub mod Sieving
pub mod Walked
