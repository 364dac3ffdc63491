-- What contracts of private functions and calls between crates cite: how the code works, not what it answers.
pub mod Kinds
pub mod Scanning
pub mod Writing
