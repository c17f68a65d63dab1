pub mod Fedder
pub mod Lists
