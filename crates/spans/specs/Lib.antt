pub mod Span
pub mod Only
