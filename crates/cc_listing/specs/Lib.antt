pub mod Words
pub mod Symbols
pub mod Globals
pub mod Lines
pub mod Laws
