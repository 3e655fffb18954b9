pub mod Turns
pub mod ToldNumbers
