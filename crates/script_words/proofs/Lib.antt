mod Cited
mod WordLaws
mod NumberLaws
mod FrontLaws
pub mod NameLaws
mod TextLaws
pub mod LineLaws
