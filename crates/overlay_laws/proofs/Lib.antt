mod Words
pub mod Members
pub mod SaidLaws
pub mod WindowLaws
pub mod EntryLaws
pub mod ShareLaws
pub mod OriginLaws
pub mod PartLaws
pub mod HullLaws
pub mod WalkLaws
pub mod CoverLaws
pub mod HolderLaws
pub mod DomainLaws
mod StepLaws
pub mod RoomLaws
mod OnceLaws
pub mod RegionLaws
pub mod ReadLaws
pub mod WindowCounts
pub mod WindowHulls
pub mod ChangeLaws
pub mod Common
