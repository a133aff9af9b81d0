pub mod Laws
pub mod Words
pub mod Versions
pub mod Bounds
pub mod Decided
pub mod Library
