pub mod Wording
pub mod Conversation
pub mod TalkSteps
pub mod Exports
pub mod Points
