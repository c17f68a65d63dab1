pub mod Constant
pub mod Principal
pub mod Splits
