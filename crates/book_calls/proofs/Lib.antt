pub mod Changed
pub mod Leaves
