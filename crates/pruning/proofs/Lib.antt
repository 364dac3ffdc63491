-- What is proved of this crate.
pub mod Answers
pub mod Counts
pub mod Examples
pub mod Largest
pub mod Steps
pub mod Striking
