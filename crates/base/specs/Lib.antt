-- The crate's definitions.
pub mod Calls
