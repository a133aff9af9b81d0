-- The crate's definitions.
pub mod Boundaries
