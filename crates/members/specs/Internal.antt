-- What only calls from one crate to another cite: how the code works, not what it answers.
pub mod Lowest
