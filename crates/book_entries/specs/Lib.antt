pub mod Books
pub mod Checks
