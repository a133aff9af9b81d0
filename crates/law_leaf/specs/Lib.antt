-- The crate's definitions.
pub mod Grouped
