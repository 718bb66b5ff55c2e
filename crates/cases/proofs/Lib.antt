pub mod Comparing
pub mod Deciding
pub mod Judging
pub mod Laws
pub mod Sweeps
pub mod Worked
