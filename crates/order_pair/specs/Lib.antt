-- The crate's definitions.
pub mod Word
pub mod Apart
