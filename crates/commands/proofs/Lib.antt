pub mod Numerals
pub mod Lines
pub mod Counted
pub mod Decimal
pub mod EveryLine
pub mod Samples
pub mod ReadBack
