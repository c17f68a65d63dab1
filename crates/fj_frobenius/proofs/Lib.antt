pub mod PlainParts
pub mod Operations
