mod Cuts
mod Laws
pub mod Readings
mod Writings
