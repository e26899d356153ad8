pub mod Chunks
pub mod Draws
pub mod Generated
pub mod Pieces
