mod Words
mod CoverSteps
mod OrderSteps
pub mod KeySteps
mod SharedSteps
mod PairSteps
pub mod OriginSteps
mod SweepSteps
mod ClaimSteps
