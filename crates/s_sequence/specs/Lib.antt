pub mod Sequence
pub mod Ports
pub mod Scope
pub mod Writer
pub mod Instructions
pub mod Shape
pub mod Written
pub mod Laws
