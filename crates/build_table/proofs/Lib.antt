-- The crate's laws.
pub mod Judging
pub mod Leafing
pub mod Listing
pub mod Leaves
pub mod Faults
pub mod Indexes
