pub mod Examples
pub mod WeightTable
