pub mod Sizes
pub mod Lifts
pub mod Firsts
pub mod Pieces
pub mod Factors
