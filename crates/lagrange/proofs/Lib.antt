-- What is proved of this crate.
pub mod Lagrange
pub mod Products
pub mod Rows
