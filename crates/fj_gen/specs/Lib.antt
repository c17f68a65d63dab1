pub mod Generated
pub mod Accepted
