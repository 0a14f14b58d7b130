pub mod Desking
pub mod Halls
