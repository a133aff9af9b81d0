-- The crate's definitions.
pub mod Keys
pub mod Lists
pub mod Pages
pub mod Source
pub mod Judged
pub mod Marks
