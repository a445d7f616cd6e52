pub mod FoundLaws
mod FitLaws
mod RangeLaws
mod PartLaws
mod FrontLaws
