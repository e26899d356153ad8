pub mod Flat
pub mod Reads
pub mod Edits
pub mod Conditions
pub mod Size
pub mod Laws
