mod Words
pub mod ListLaws
pub mod TallyLaws
pub mod AskedLaws
pub mod CellLaws
pub mod SumLaws
