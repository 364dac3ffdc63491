-- What is proved of this crate.
pub mod Apart
pub mod Candidate
pub mod Enumerated
pub mod Examples
pub mod Points
pub mod Refusals
pub mod Search
pub mod Tried
pub mod Turns
pub mod Unique
pub mod Words
