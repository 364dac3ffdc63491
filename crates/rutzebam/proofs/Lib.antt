-- What is proved of this crate.
pub mod Calls
