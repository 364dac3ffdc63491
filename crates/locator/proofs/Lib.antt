-- What is proved of this crate.
pub mod Coefficients
pub mod Invariant
pub mod Loops
pub mod Passes
pub mod Points
