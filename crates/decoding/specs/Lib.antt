pub mod Answer
pub mod Decoding
pub mod Examples
pub mod Internal
