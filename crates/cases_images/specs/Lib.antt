-- The crate's theorems.
pub mod Rows
pub mod Cases
