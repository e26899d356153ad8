pub mod Edges
pub mod Drawing
pub mod Ops
pub mod Texts
