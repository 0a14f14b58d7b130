mod Askings
pub mod Halls
mod Names
