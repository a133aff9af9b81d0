pub mod Ends
pub mod Text
