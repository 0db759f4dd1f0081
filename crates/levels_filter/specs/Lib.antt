pub mod Filters
pub mod Pyramids
pub mod Calls
pub mod Backward
