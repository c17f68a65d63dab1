mod Copied
mod Dropped
mod Progress
pub mod Shown
