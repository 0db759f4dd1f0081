pub mod Small
pub mod Lists
pub mod Pieces
