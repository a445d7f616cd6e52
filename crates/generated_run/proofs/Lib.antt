mod Words
mod BandLaws
pub mod CallLaws
pub mod LawfulLaws
pub mod MadeLaws
mod PostLaws
pub mod Ranges
pub mod RankLaws
mod SumLaws
mod TurnLaws
