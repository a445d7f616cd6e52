mod Words
pub mod RoundLaws
pub mod PastSteps
pub mod SplitSteps
pub mod CoveredBytes
pub mod EntryCells
pub mod PartSteps
pub mod ReadParts
