pub mod Begins
pub mod Capped
pub mod Measured
pub mod Measures
pub mod Reached
pub mod Unplaced
