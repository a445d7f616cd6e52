mod Words
pub mod StandingLaws
pub mod OrderLaws
pub mod CallLaws
pub mod LawfulLaws
pub mod WayLaws
pub mod TogetherLaws
pub mod ArrivalLaws
