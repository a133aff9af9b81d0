-- The crate's definitions.
pub mod Asked
