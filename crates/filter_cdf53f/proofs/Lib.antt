pub mod Factors
pub mod Ahead
pub mod RestoreTurns
