pub mod Layout
pub mod Table
pub mod Steps
pub mod Answers
