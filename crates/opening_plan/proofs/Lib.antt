mod Words
pub mod CallLaws
pub mod OpeningLaws
