-- The crate's definitions.
pub mod OneStep
