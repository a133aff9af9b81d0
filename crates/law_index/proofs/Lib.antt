-- The crate's laws.
pub mod Slots
pub mod Built
