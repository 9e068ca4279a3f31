pub mod Room
pub mod Wrote
pub mod Records
pub mod Lines
pub mod Shown
pub mod Sheets
pub mod Round
