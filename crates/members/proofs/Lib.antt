-- What is proved of this crate.
pub mod Examples
pub mod Listed
pub mod Masks
pub mod Points
pub mod Taken
pub mod Words
