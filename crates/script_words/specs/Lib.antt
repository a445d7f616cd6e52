pub mod Given
pub mod Escapes
pub mod Seen
