pub mod Relocation
pub mod NewBegins
pub mod Ranges
pub mod Moves
pub mod Kept
pub mod Carried
pub mod Indexed
