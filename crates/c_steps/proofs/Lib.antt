pub mod Bare
pub mod Heading
pub mod Running
pub mod Ways
pub mod Numbers
