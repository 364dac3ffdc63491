-- What functions of other crates' insides cite besides: how the code works, not what it answers.
pub mod Dot
