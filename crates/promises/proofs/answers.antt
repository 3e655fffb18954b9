-- A run is heard as the object model's; what that says of cuts, fates, values and other sheets.
pub mod Heard
pub mod ModelRuns
pub mod CutEffects
pub mod Origins
pub mod Carried
pub mod Seen
pub mod MovedReads
pub mod Unwritten
pub mod MoveCuts
pub mod Overtaking
pub mod Reserved
pub mod Fallen
pub mod AnySheets
