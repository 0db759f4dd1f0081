pub mod Tells
pub mod Chain
pub mod Passed
pub mod Endings
