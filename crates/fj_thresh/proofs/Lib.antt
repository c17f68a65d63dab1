pub mod Coordinates
pub mod DigitLists
pub mod NuByDigits
pub mod PointThreshold
pub mod ThresholdGaps
pub mod ThresholdStops
pub mod Within
