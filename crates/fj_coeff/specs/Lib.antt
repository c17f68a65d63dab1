pub mod Field
pub mod PrimeField
pub mod PrimeFieldLaws
pub mod PrimeTest
