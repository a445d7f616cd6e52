pub mod CanonicalParts
pub mod Expressible
