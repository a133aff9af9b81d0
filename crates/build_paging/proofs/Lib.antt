-- The crate's laws.
pub mod Cutting
pub mod Cases
pub mod Decided
pub mod Left
