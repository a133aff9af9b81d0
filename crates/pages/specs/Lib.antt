-- The crate's definitions.
pub mod Sound
pub mod Hand
pub mod Meaning
pub mod Boundaries
pub mod HintsAt
pub mod Frames
pub mod Refused
pub mod Cases
