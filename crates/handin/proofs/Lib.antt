-- What is proved of this crate.
pub mod Examples
pub mod Placing
pub mod ReadBack
pub mod Reaching
pub mod Reading
pub mod Refusing
pub mod Sound
pub mod Taking
pub mod TextLength
pub mod WriterChecks
pub mod Writing
