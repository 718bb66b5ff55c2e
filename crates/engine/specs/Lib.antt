pub mod Comparisons
pub mod Differences
pub mod Runs
