pub mod Chains
pub mod ChainLists
pub mod LastLists
pub mod LimitStops
pub mod PeriodBound
pub mod StepLists
pub mod TestIdeals
