pub mod Popping
pub mod States
