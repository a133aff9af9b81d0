pub mod Laws
pub mod KeysBack
pub mod ValsBack
pub mod Decided
