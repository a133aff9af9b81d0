-- The crate's definitions.
pub mod Loop
