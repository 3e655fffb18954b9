-- The calls over decoded pages do what the object model does, and the log says what the model has.
pub mod LogSays
pub mod ModelCalls
pub mod Sim
pub mod SimWrites
pub mod SimReads
pub mod SimDecides
pub mod SimCalls
pub mod SimMoves
pub mod Openings
pub mod Shown
pub mod Visible
