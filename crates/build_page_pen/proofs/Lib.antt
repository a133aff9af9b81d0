-- The crate's laws.
pub mod Telling
pub mod Resting
pub mod Copying
pub mod Marking
pub mod Turns
pub mod Leaves
pub mod Both
