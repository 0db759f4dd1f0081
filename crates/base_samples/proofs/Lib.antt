pub mod LeLaws
pub mod Words
pub mod Fronts
pub mod Diff
pub mod IntegerLaws
pub mod FloatLaws
pub mod Halves
pub mod Signs
