pub mod Moved
pub mod MoveLeaves
pub mod MoveSteps
pub mod Promised
