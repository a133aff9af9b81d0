-- The crate's laws.
pub mod Turns
pub mod Compared
pub mod Narrows
pub mod Halving
pub mod Opens
pub mod Rising
pub mod KeysRead
pub mod PageKeys
pub mod Answers
pub mod Neighbours
pub mod Only
pub mod Places
pub mod Decided
pub mod Numbers
