mod Words
pub mod TurnLaws
pub mod BackLaws
pub mod DomainTurns
pub mod PlanLaws
pub mod CrewLaws
pub mod SplitLaws
pub mod OneChanged
pub mod PartsInTurn
mod LeastRounds
