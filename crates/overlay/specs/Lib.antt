pub mod Overlay
pub mod Lent
