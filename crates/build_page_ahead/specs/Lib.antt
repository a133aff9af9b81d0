-- The crate's definitions.
pub mod Filled
pub mod Answers
