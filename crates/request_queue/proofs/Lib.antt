mod Words
mod AccountLaws
mod IndexLaws
mod PlaceLaws
pub mod PostedLaws
mod TakeLaws
mod LeaveLaws
mod Freed
