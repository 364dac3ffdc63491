-- What only contracts of calls between our crates cite: how the code works, not what it answers.
pub mod Iterated
