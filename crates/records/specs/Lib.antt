-- The crate's definitions.
pub mod Records
pub mod Parts
