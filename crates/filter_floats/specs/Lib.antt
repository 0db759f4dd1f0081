pub mod Steps
pub mod Filters
pub mod Bands
pub mod Loops
pub mod Lanes
pub mod Kinds
