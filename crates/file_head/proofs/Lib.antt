pub mod Telling
pub mod Sizing
