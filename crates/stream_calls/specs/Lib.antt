pub mod StateBytes
pub mod Calls
pub mod Loops
