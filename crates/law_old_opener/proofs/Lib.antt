pub mod MeetsNew
pub mod OldFiles
