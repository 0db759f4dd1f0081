pub mod Peeks
pub mod Neighbours
