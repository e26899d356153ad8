pub mod Blocks
mod CodeFormats
pub mod LaidFunctions
pub mod SelectedFunctions
