-- The crate's definitions.
pub mod Stretches
pub mod Places
pub mod Nibs
pub mod Pens
