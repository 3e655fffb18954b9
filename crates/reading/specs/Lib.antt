pub mod WarmReads
