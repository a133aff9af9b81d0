-- The crate's definitions.
pub mod Call
pub mod Table
pub mod Prefix
pub mod Sizes
pub mod Image
