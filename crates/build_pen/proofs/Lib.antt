-- The crate's laws.
pub mod Drawn
pub mod Cutting
pub mod Places
pub mod Writing
pub mod WritingList
pub mod Nibbing
pub mod Peering
pub mod Olding
pub mod Opening
pub mod Turning
pub mod Running
pub mod RunningList
pub mod Penning
pub mod PenningList
pub mod Later
