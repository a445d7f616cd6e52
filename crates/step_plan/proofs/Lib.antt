mod Words
pub mod AskedLaws
pub mod DomainLaws
pub mod PhaseLaws
pub mod SoloLaws
