mod Words
pub mod LeftBytes
pub mod HullSteps
pub mod WindowSteps
pub mod CallSteps
pub mod PutSteps
pub mod ReachSteps
pub mod GetSteps
pub mod CollectedSteps
pub mod NextSteps
pub mod LoopSteps
