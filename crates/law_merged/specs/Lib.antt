-- The crate's definitions.
pub mod Trees
pub mod Joined
