-- What is proved of this crate.
pub mod Assembled
pub mod Examples
pub mod FirstChecks
pub mod Places
pub mod Reading
pub mod Same
pub mod SharesChecks
pub mod Shapes
pub mod Tests
pub mod View
