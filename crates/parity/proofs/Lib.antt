-- What is proved of this crate.
pub mod Balance
pub mod Examples
pub mod Summing
pub mod Sums
pub mod Table
pub mod Turns
pub mod Zero
