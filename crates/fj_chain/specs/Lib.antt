pub mod Admissible
pub mod Lists
