pub mod Desks
pub mod Renewals
pub mod Said
pub mod Texts
