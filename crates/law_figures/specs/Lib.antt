pub mod Worked
pub mod ShutOut
pub mod Book
pub mod Stream
pub mod Why
