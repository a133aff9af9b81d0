-- The crate's definitions.
pub mod Cuts
