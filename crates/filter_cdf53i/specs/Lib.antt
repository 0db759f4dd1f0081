pub mod Lift
pub mod T800
pub mod Within
pub mod Bands
