pub mod Numbers
pub mod Seeds
pub mod Words
