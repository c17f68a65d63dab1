pub mod Account
pub mod Counting
pub mod Handing
pub mod Flaky
pub mod HandingLaws
