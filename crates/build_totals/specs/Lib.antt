-- The crate's definitions.
pub mod Totals
