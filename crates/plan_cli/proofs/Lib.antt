mod Words
pub mod FrontLaws
pub mod OpeningLaws
pub mod ForetoldLaws
pub mod StopLaws
pub mod EarlyEnds
pub mod LineLaws
pub mod EndLaws
pub mod GivenEnds
