-- The crate's definitions.
pub mod Leaf
pub mod Listed
