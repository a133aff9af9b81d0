-- The crate's definitions.
pub mod Going
pub mod Sweeps
