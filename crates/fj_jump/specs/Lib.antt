pub mod Chosen
pub mod Count
pub mod Limits
pub mod Lists
pub mod PeriodLimits
pub mod Rows
pub mod Search
