-- The crate's laws.
pub mod One
