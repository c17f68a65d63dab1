pub mod Bisection
pub mod Chosen
pub mod Count
pub mod Found
pub mod PeriodLimits
pub mod Settling
pub mod Unit
