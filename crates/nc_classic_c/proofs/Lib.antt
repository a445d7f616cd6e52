mod Words
pub mod AcceptedRegions
pub mod Answering
pub mod CountedHeaders
pub mod CoverLaws
pub mod DefinitionLaws
pub mod DeviceWindows
pub mod Filling
pub mod MakingLaws
pub mod OverlapLaws
pub mod Refusing
pub mod ValueLaws
pub mod WindowLaws
