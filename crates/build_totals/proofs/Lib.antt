-- The crate's laws.
pub mod Fine
pub mod Tallying
pub mod Paged
