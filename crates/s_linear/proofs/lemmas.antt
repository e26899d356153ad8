pub mod Labels
pub mod Passing
