pub mod Examples
pub mod Internal
pub mod Layout
pub mod Sample
