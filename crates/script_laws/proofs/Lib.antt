mod Words
pub mod StepLaws
pub mod ListLaws
mod WordLaws
pub mod Sequences
pub mod ValueLaws
pub mod DimLaws
mod AddedLaws
mod DefinedLaws
mod CallLaws
pub mod CalledLaws
mod AgreeLaws
mod ReadLaws
mod RunLaws
pub mod HeaderLaws
mod HintLaws
pub mod LawfulLaws
