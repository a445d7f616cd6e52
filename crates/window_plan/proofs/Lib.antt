mod Words
pub mod OwnerLaws
pub mod PlanLaws
pub mod ShareLaws
