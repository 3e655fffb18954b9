-- Each event is answered as the object model answers it, and leads from a box that stands for a log and a model to such a box; what is
-- found, kept, shown and answered alike.
pub mod Boxes
pub mod BoxPages
pub mod BoxCalls
pub mod BoxOpens
pub mod Blanks
pub mod BoxMoves
pub mod BoxRuns
pub mod Extends
pub mod Found
pub mod Decisions
pub mod BoxKept
pub mod BoxShown
pub mod Settled
pub mod Lasting
pub mod Stable
