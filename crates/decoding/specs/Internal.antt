-- What only contracts of private functions cite: how the code works, not what it answers.
pub mod Candidate
pub mod Outcome
pub mod Roster
pub mod Words
