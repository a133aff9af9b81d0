-- The crate's definitions.
pub mod Words
