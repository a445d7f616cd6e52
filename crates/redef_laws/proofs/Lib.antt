mod Words
pub mod Orders
mod FieldLaws
pub mod OpenedLaws
mod GrownLaws
mod ShortLaws
mod FitLaws
pub mod RebegunLaws
pub mod BeginLaws
mod PlaceLaws
mod KeptLaws
mod SharingLaws
mod ApartLaws
pub mod WrittenLaws
mod SoundVars
mod RecordSizes
mod PlacedLaws
mod SlabLaws
mod SlabOrder
mod ShiftLaws
mod ElementSlabs
pub mod MovedLaws
mod ChainLaws
mod GapLaws
pub mod RisingLaws
pub mod AppliedLaws
