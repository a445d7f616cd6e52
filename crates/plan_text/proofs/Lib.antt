mod Cited
pub mod ArrayLaws
mod LineLaws
pub mod PlainLaws
mod VariableLaws
