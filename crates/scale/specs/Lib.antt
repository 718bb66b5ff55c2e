pub mod Causes
pub mod Kinds
pub mod Made
pub mod Meaning
pub mod Norms
pub mod Refusals
pub mod Sets
