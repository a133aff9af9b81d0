-- The crate's laws.
pub mod Lists
pub mod Pages
pub mod Meeting
pub mod Trees
pub mod Making
pub mod Asked
pub mod Regrouped
