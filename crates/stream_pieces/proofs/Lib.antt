pub mod Kept
pub mod Joins
pub mod Tables
pub mod Stands
pub mod NextWords
