pub mod Linear
pub mod Lines
pub mod Operands
pub mod Meaning
pub mod Frame
pub mod Views
pub mod Laws
pub mod Texts
