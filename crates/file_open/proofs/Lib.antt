pub mod Ways
pub mod Parts
pub mod Opening
pub mod Writing
pub mod Sections
