pub mod Asked
pub mod Named
pub mod NamedIdeal
pub mod Shell
