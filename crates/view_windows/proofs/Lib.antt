pub mod Windows
pub mod Figures
