-- The crate's laws.
pub mod Refusals
pub mod Frames
pub mod Judged
pub mod Stores
pub mod Clerks
pub mod Decided
