-- The crate's definitions.
pub mod Head
