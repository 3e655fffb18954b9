pub mod LowestUnlawful
pub mod BadPages
pub mod LawfulLogs
pub mod ArraysKnow
pub mod ClimbSteps
pub mod ClimbPass
pub mod NoSecondOutcome
pub mod SomePlace
