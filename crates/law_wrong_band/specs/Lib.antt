pub mod WrongBand
pub mod Figures
