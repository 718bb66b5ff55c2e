pub mod Lawfulness
pub mod Reweighing
