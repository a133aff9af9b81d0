-- The crate's laws.
pub mod Going
pub mod Running
pub mod Paging
