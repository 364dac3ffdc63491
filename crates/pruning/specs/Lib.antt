pub mod Answer
pub mod Counts
pub mod Examples
pub mod Internal
pub mod Pruning
