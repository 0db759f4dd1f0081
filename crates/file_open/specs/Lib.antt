pub mod Files
pub mod Walks
pub mod Opens
pub mod Writes
