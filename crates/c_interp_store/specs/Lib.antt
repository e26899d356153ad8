pub mod Laid
pub mod Starts
pub mod Ascending
pub mod Cells
pub mod Blocks
pub mod Holding
pub mod Operators
