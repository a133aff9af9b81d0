-- The crate's laws.
pub mod Turns
pub mod Olds
pub mod InHand
pub mod Given
pub mod Rows
pub mod Ends
pub mod Says
pub mod Decided
pub mod Numbers
