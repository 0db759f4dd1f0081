pub mod Files
pub mod Table
pub mod Fused
pub mod Done
pub mod ShutOut
pub mod Book
pub mod Stream
pub mod Why
