pub mod Indexed
pub mod Kept
pub mod Queued
pub mod Buffer
