mod Words
pub mod Truth
pub mod Optional
pub mod Places
pub mod Each
pub mod Maps
pub mod Ranges
pub mod Numbers
pub mod Results
pub mod Appends
pub mod Fronts
pub mod Refills
pub mod Walks
pub mod Parts
pub mod Std
pub mod Types
pub mod Common
