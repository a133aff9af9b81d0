pub mod Keys
pub mod Vals
