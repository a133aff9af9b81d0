-- The crate's laws.
pub mod Tallying
pub mod Cutting
pub mod Ents
pub mod Plain
pub mod Sweeping
pub mod Listing
pub mod Indexing
pub mod Ending
