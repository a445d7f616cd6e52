pub mod RankSides
pub mod RankHandle
pub mod Threads
