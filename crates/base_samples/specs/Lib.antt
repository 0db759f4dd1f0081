pub mod Le
pub mod Words
pub mod Integers
pub mod Floats
pub mod Halves
