-- The crate's laws.
pub mod Picking
pub mod Olds
pub mod Searched
pub mod Leaves
pub mod New
pub mod Merged
