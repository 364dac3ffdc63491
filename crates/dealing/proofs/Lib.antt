-- What is proved of this crate.
pub mod Examples
pub mod Filling
pub mod Laws
pub mod Places
pub mod Refusals
pub mod SameKeys
