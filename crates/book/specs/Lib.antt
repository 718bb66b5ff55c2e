pub mod Admission
pub mod Calls
pub mod Ledger
pub mod Rows
pub mod View
