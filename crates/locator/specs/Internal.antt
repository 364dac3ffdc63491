-- What only contracts between this library's own crates cite: how decoding works, not what it answers.
pub mod Pairs
