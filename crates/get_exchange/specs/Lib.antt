pub mod Blobs
pub mod Gets
pub mod Fetched
pub mod Shelves
pub mod Logs
pub mod Lenders
pub mod Readers
