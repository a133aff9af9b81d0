-- The crate's definitions.
pub mod Pairs
