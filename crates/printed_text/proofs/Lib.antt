mod Cited
mod DigitLaws
mod HexLaws
pub mod IndexLaws
mod OffsetLaws
pub mod WordLaws
