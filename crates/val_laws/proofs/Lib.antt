mod Blocks
mod Cells
mod Stores
mod Lifetimes
pub mod lemmas
