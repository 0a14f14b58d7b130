pub mod Anys
pub mod Lawful
pub mod Told
