pub mod TopWords
pub mod LineFaults
