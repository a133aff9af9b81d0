-- The crate's laws.
pub mod Filled
pub mod Running
pub mod Paging
