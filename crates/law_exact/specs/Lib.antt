pub mod Exact
pub mod Levels
