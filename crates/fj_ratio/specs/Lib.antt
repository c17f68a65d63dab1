pub mod Lowest
pub mod FractionCode
pub mod RatioLaws
pub mod ExpansionDigits
pub mod Multiples
pub mod ExpansionLaws
