pub mod Names
pub mod Optimised
