pub mod Told
pub mod Decided
pub mod Looping
pub mod Batches
pub mod Readers
