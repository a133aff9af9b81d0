-- The crate's definitions.
pub mod Runs
