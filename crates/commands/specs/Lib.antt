pub mod Answers
pub mod Args
pub mod Commands
pub mod Told
