pub mod Onward
pub mod Fed
pub mod Every
pub mod Left
pub mod Forward
