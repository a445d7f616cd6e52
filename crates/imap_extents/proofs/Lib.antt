mod Cited
mod BlockLaws
mod CodeLaws
mod EachLaws
mod EndLaws
mod FrontLaws
mod OrderLaws
mod PlacingLaws
pub mod PositionLaws
pub mod RefusalLaws
mod RunLaws
