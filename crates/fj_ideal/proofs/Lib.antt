pub mod PlainTables
pub mod ReducedBasis
pub mod Lists
pub mod Stops
pub mod HighProducts
pub mod Products
pub mod Congruence
