-- The crate's laws.
pub mod Rests
pub mod Runs
pub mod Slots
pub mod SlotPass
pub mod Locating
pub mod HeadPass
pub mod Decided
