mod Words
pub mod KnownLaws
pub mod OwnLaws
pub mod RequestLaws
mod GetLaws
mod HeardLaws
pub mod StepLaws
mod WaitLaws
mod NameLaws
pub mod OutcomeLaws
mod MappedLaws
pub mod ValueLaws
mod SeparateLaws
pub mod FillLaws
pub mod FillPostLaws
pub mod FillLookLaws
pub mod LookLaws
mod TargetLaws
mod FittingLaws
