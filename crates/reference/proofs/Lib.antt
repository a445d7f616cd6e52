mod Words
mod GatherLaws
mod IndexLaws
pub mod MeetSteps
mod PairSteps
mod PutSteps
mod RunnerLaws
mod FirstLaws
mod NextLaws
mod StepLaws
mod EndLaws
mod MarkLaws
