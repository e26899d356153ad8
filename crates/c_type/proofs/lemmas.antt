pub mod Bounds
pub mod Levels
