-- The crate's laws.
pub mod Places
pub mod Inside
pub mod Quick
