mod Words
pub mod AcceptedLaws
mod BoxLaws
mod CountLaws
pub mod JoinLaws
pub mod NumberLaws
pub mod OnceLaws
pub mod PartLaws
pub mod PlaceLaws
mod RowLaws
pub mod RowSteps
mod RunLaws
mod SweepLaws
mod WalkLaws
pub mod WriteLaws
