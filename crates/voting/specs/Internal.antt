-- What only contracts of private functions cite: how the code works, not what it answers.
pub mod Ballots
pub mod Counting
