pub mod Ahead
pub mod Back
