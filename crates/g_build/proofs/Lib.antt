pub mod WrittenBytes
pub mod Parts
pub mod Items
pub mod Numbering
pub mod Segments
