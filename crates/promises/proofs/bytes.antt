-- The bytes that a call leaves, or a cut of it, decode to the pages that it leaves.
pub mod Mixed
pub mod Stored
pub mod Replaced
pub mod Appended
pub mod Cuts
pub mod ByteCalls
