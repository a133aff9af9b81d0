-- The crate's definitions.
pub mod Merge
pub mod Answer
