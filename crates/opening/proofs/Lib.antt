-- What is proved of this crate.
pub mod Room
pub mod Steps
