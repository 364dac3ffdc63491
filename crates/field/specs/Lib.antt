pub mod Examples
pub mod Field
pub mod Internal
