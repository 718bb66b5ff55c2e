pub mod Books
pub mod Claims
