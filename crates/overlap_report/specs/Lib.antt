pub mod Sorted
pub mod Parts
pub mod SharedBytes
pub mod Reach
pub mod Holders
pub mod Sweep
