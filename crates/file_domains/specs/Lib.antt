pub mod Domains
pub mod Rounds
