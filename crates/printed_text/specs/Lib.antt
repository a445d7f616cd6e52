pub mod Digits
pub mod Offsets
pub mod Spaced
