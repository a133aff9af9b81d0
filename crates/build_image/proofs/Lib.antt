-- The crate's laws.
pub mod Asked
pub mod Tables
pub mod Prefix
pub mod Exactly
pub mod Lengths
pub mod Leaf
pub mod Cases
pub mod Index
