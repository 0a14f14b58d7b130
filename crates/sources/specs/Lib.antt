pub mod Anys
pub mod Lists
