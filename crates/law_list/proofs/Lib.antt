-- The crate's laws.
pub mod Having
pub mod Flat
pub mod Bounds
pub mod Leaves
pub mod Branches
