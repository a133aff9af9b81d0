-- The crate's laws.
pub mod Gathering
pub mod Merging
pub mod Said
pub mod Building
pub mod Answering
pub mod Refusing
pub mod Cases
pub mod Decided
