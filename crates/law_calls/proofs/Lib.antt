-- The crate's laws.
pub mod Stored
pub mod Listing
pub mod Accepted
pub mod Fitting
pub mod Index
pub mod Judged
pub mod New
