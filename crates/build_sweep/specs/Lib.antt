-- The crate's definitions.
pub mod Tally
pub mod Pages
pub mod Bounds
pub mod Cuts
pub mod Ents
pub mod Swept
pub mod Adding
