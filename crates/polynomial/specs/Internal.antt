-- What only contracts of private functions cite, and those of insides of other crates: how the code works, not what it answers.
pub mod Newton
pub mod Powers
