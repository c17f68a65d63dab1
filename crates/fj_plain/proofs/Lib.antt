pub mod PackedExponents
pub mod TalliedLemmas
pub mod Raised
pub mod NonzeroEntries
pub mod Entries
pub mod Each
pub mod Distinct
pub mod Directions
