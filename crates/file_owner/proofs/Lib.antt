mod Words
pub mod AlikeLaws
mod GainedLaws
pub mod EndLaws
mod HaltLaws
pub mod StopLaws
mod ArriveSteps
mod RefusedSteps
mod PutLaws
mod AloneSteps
mod HeldLaws
mod LentLaws
mod TogetherSteps
pub mod StrangeLaws
pub mod OwnerRuns
mod RunLaws
