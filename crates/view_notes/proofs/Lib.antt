pub mod Spans
pub mod Answered
pub mod Figures
