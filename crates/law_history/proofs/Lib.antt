-- The crate's laws.
pub mod Opening
pub mod Rowing
pub mod Values
pub mod Remotes
pub mod Page
pub mod History
pub mod Chain
pub mod Paging
pub mod Boundaries
pub mod Prefix
