pub mod Counts
pub mod Door
