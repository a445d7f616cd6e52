pub mod Counting
pub mod Made
