pub mod Laws
pub mod Searched
pub mod Decided
pub mod Numbers
