pub mod Order
pub mod Bounds
pub mod Version
