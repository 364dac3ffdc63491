pub mod Examples
pub mod Tag
