pub mod Lengths
pub mod Levels
pub mod Calls
