-- The crate's definitions.
pub mod Fields
pub mod Judged
pub mod Hand
