pub mod Finding
pub mod Odometer
pub mod Passing
pub mod Sequences
pub mod Stepping
pub mod Telling
pub mod Writing
pub mod Zeros
