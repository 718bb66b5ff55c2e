pub mod Programs
pub mod Raisings
pub mod Ready
pub mod Searches
pub mod Valuations
pub mod Verdicts
pub mod Words
