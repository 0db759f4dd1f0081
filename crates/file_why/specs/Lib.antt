pub mod Reasons
pub mod Laws
pub mod Completed
