pub mod OneSample
pub mod Peeking
pub mod AsOpened
