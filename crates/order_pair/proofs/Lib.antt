-- The crate's laws.
pub mod Overlap
pub mod Joined
pub mod Told
