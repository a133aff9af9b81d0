-- The crate's definitions.
pub mod Refusals
pub mod Limits
pub mod Layout
pub mod Stored
pub mod Clerks
pub mod Cases
