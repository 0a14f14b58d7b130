pub mod Others
pub mod Spanning
pub mod Telling
