mod Lowering
mod Raising
mod Rounding
mod Running
mod Settling
mod Shown
mod Tried
