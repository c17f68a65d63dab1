pub mod OrderRow
pub mod Terms
pub mod PlainCode
pub mod Packing
pub mod Tallied
pub mod Holds
pub mod TermKey
