-- The crate's definitions.
pub mod Steps
pub mod Located
