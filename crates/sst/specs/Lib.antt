-- The crate's definitions.
pub mod Halve
pub mod Narrow
pub mod Search
pub mod Refused
pub mod Says
pub mod Cases
