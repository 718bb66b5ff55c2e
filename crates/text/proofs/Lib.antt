pub mod Cuts
pub mod Lines
pub mod Lookups
pub mod Naming
pub mod Obeying
pub mod Outcomes
pub mod Spelling
pub mod Traversals
