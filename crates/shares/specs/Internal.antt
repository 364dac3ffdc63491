-- What only contracts between crates cite: how the code works, not what it answers.
pub mod FirstChecks
pub mod Shape
