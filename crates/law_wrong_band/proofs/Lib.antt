pub mod TwoBands
pub mod Calls
pub mod Levels
pub mod Few
pub mod PassedOn
pub mod Figures
