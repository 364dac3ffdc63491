-- What is proved of this crate.
pub mod Congruence
pub mod Dot
pub mod Examples
pub mod Fermat
pub mod Fits
pub mod Operations
pub mod Squaring
pub mod Table
