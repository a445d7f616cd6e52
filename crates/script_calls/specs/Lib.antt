pub mod Posts
pub mod CallWords
