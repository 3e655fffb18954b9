pub mod Names
pub mod Commands
pub mod ParseSteps
pub mod Replies
