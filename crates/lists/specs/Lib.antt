pub mod Ascii
pub mod Checks
pub mod Tabulate
