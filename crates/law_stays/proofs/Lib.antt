-- The crate's laws.
pub mod Grown
pub mod FramesStay
pub mod RecordsStay
pub mod PagesStay
