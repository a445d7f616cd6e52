mod Words
pub mod CollectLaws
mod ReadLaws
mod TakeLaws
mod PartReads
mod TurnReads
mod FetchLaws
mod ShelfLaws
mod LenderLaws
