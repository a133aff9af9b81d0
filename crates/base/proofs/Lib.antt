-- The crate's laws.
pub mod Common
pub mod Calls
pub mod Refusing
pub mod Eights
pub mod Decided
pub mod Cases
pub mod Outside
