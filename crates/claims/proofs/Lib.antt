-- What is proved of the definitions.
pub mod Days
pub mod Demand2
pub mod Demand3
pub mod Examples
pub mod HandIn
pub mod Honest
pub mod Instances
pub mod Named
pub mod Opening
pub mod Pairs
pub mod QuickLook
pub mod Recoded
pub mod Rules
pub mod Secrecy
