-- The crate's definitions.
pub mod Table
pub mod Index
pub mod Leaf
pub mod Pages
