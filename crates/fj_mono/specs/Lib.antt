pub mod Monomial
pub mod OrderLaws
