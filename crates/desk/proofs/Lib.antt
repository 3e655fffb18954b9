pub mod CallMade
pub mod LineSaid
pub mod ValueShown
pub mod Exported
pub mod BlankSheets
pub mod Pointed
