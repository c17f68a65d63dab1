pub mod Part
pub mod Groups
pub mod Root
