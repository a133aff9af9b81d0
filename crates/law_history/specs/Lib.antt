-- The crate's definitions.
pub mod Fit
pub mod Rows
pub mod Olders
