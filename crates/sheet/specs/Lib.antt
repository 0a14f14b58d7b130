pub mod Lines
pub mod Scopes
pub mod Sheets
