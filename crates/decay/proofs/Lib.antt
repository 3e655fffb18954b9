pub mod Pages
pub mod Sheets
pub mod Proved
pub mod Examples
