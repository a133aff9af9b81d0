-- The crate's laws.
pub mod Walk
pub mod Joined
pub mod Lists
pub mod Stepped
pub mod Paged
pub mod Sourced
pub mod Marked
pub mod Judging
pub mod Cases
pub mod Decided
pub mod Alone
