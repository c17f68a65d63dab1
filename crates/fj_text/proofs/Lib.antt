pub mod Numbers
pub mod Words
pub mod Tokens
pub mod Places
pub mod Joined
pub mod TermText
pub mod PrintedTokens
pub mod PrintedPieces
pub mod SmallPolynomials
pub mod PrintedReading
pub mod PrintedValues
pub mod PrintedLaw
pub mod FirstVariables
pub mod Readers
pub mod Values
mod Counts
mod Members
mod Sums
mod Divisors
mod Powers
pub mod Repeats
pub mod Parentheses
pub mod Grammars
pub mod Soundness
pub mod Completeness
