-- The crate's definitions.
pub mod Told
pub mod Runs
