-- The crate's laws.
pub mod Fields
pub mod Hands
pub mod Heads
pub mod Rows
