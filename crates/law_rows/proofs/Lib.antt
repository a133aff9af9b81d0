-- The crate's laws.
pub mod Entries
pub mod Carried
pub mod Marks
pub mod Climbing
pub mod Neighbours
pub mod Alike
pub mod Pages
