pub mod Pieces
pub mod Parts
pub mod Bounds
pub mod Globals
