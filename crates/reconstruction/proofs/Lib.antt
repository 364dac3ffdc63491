-- What is proved of this crate.
pub mod AllWords
pub mod ByWord
pub mod Examples
pub mod Halves
pub mod Meaning
pub mod Opening
pub mod Order
pub mod Quick
pub mod Sets
