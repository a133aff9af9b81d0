-- The crate's laws.
pub mod Olds
pub mod Hand
pub mod Decided
pub mod Numbers
