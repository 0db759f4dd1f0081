pub mod States
pub mod Ready
pub mod Streams
pub mod Rears
pub mod Others
