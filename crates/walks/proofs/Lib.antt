-- The crate's laws.
pub mod Lying
pub mod Signs
pub mod Steps
pub mod Keeps
pub mod Listing
pub mod Says
pub mod Shorter
pub mod Turns
pub mod Ages
pub mod Held
pub mod Hands
pub mod Decided
pub mod Numbers
