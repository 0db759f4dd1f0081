pub mod T800Levels
