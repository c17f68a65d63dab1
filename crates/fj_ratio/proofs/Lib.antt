pub mod LowestTerms
pub mod NextDigit
pub mod SplitPower
pub mod Expanded
pub mod Rows
pub mod Written
pub mod WholePart
