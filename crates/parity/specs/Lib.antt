pub mod Examples
pub mod Internal
pub mod Parity
