-- What is proved of this crate.
pub mod Examples
pub mod Lines
pub mod Opening
