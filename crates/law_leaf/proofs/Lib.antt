-- The crate's laws.
pub mod Groups
pub mod Refs
pub mod Slots
pub mod Hints
pub mod Listed
pub mod Built
pub mod Hinted
pub mod Cases
