-- The crate's laws.
pub mod Frame
pub mod Whole
pub mod Fixed
pub mod Pieces
pub mod Listed
pub mod Leaves
