pub mod Deltas
pub mod Built
pub mod Read
pub mod Refused
