mod Words
pub mod CutLaws
pub mod Products
pub mod RepeatedLaws
pub mod Searches
pub mod TornLaws
pub mod VariableLaws
pub mod WindowLaws
pub mod WriteLaws
