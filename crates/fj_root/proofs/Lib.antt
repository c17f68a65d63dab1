pub mod Groups
pub mod Gather
pub mod Gathered
pub mod Roots
pub mod Limits
