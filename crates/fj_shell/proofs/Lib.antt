pub mod Nonconstant
pub mod Known
pub mod Lets
pub mod Pieces
pub mod ReadBytes
