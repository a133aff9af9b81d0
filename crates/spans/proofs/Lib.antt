pub mod Part
pub mod Put
pub mod Lying
pub mod Writing
pub mod Tests
