-- The crate's definitions.
pub mod Walk
pub mod Refused
pub mod Listed
pub mod Cases
pub mod Turned
pub mod Aged
