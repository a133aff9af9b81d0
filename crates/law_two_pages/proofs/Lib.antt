-- The crate's laws.
pub mod On
pub mod Pages
