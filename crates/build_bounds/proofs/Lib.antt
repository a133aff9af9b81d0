-- The crate's laws.
pub mod Laws
