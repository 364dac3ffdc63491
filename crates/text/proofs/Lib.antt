-- What is proved of this crate.
pub mod Bytes
pub mod Digits
pub mod Examples
pub mod FieldLaws
pub mod FieldLists
pub mod Numerals
pub mod Parts
pub mod Pieces
pub mod Printing
pub mod RoundTrip
pub mod Writing
