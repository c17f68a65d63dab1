pub mod Eighth
pub mod Products
pub mod Meets
pub mod Quotients
