pub mod AnswerSet
pub mod Equivalence
pub mod Position
pub mod Semantics
pub mod Theorems
