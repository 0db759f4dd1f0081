pub mod Depths
pub mod Counts
pub mod Figures
pub mod OneLevel
