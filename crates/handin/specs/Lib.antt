pub mod Answer
pub mod Examples
pub mod Internal
pub mod Reader
pub mod Sample
pub mod Writer
