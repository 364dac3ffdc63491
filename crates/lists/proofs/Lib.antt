-- Laws of lists, tests and counts over the first n numbers.
pub mod Blocks
pub mod Bools
pub mod Checks
pub mod Choose
pub mod Common
pub mod Count
pub mod Every
pub mod Grids
pub mod Grown
pub mod InPlace
pub mod StoredBlocks
pub mod Loops
pub mod Stores
pub mod Sums
pub mod Tabulate
