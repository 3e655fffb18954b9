-- A lawful log, and what its images, fates and versions are.
pub mod Logs
pub mod Chains
pub mod Appends
pub mod Versions
pub mod Newest
pub mod Outcomes
pub mod Fates
pub mod Histories
