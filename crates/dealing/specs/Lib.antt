pub mod Answer
pub mod Dealing
pub mod Examples
pub mod Internal
