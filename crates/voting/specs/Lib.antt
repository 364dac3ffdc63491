pub mod Answer
pub mod Examples
pub mod Internal
pub mod Votes
