pub mod Answers
pub mod Lowest
pub mod Pigeons
pub mod Reaching
pub mod Sounds
pub mod Trees
pub mod Ways
pub mod Words
