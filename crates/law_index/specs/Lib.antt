-- The crate's definitions.
pub mod Children
