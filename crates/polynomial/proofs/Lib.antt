-- What is proved of this crate.
pub mod Evaluation
pub mod Examples
pub mod Folds
pub mod InPlace
pub mod Interpolation
pub mod Newton
pub mod Powers
pub mod Roots
