pub mod Terms
pub mod Limit
pub mod Slots
pub mod Place
