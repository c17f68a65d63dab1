pub mod Lists
pub mod Certificate
