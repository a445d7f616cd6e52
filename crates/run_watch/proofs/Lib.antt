mod Words
mod Beginnings
mod Moves
mod Results
pub mod Sent
