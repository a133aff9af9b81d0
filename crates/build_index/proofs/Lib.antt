-- The crate's laws.
pub mod Passes
pub mod Page
pub mod Penning
pub mod Listed
pub mod Fixed
pub mod Children
pub mod PagePen
