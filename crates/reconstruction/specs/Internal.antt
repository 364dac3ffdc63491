-- What only contracts of private functions, and of calls between our crates, cite: how the code works, not what it answers.
pub mod Steps
pub mod Words
