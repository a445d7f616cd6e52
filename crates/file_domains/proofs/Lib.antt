mod Words
mod DomainBytes
pub mod CoverParts
pub mod WalkSteps
