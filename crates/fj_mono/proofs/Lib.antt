pub mod Split
pub mod Compare
pub mod Combine
