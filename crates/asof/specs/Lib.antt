-- The crate's definitions.
pub mod AsOf
pub mod InHand
pub mod Refused
pub mod Cases
