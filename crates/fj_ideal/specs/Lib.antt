pub mod Congruent
pub mod Ideal
pub mod Reduced
pub mod Stop
pub mod Lists
pub mod Same
