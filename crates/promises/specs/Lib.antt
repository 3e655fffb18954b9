pub mod Runs
pub mod Model
pub mod FromLog
pub mod Promises
