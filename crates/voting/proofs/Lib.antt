-- What is proved of this crate.
pub mod Counts
pub mod Examples
pub mod Meaning
pub mod Rows
pub mod Totals
