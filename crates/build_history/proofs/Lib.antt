-- The crate's laws.
pub mod Writes
pub mod Ahead
pub mod Straight
pub mod Passes
pub mod Page
pub mod Decided
