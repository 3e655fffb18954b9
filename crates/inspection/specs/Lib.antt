pub mod Lawful
pub mod Inspected
pub mod ClimbSteps
pub mod SomePlace
