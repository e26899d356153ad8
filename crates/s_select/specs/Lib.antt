pub mod Operands
pub mod Templates
pub mod Conditions
pub mod Laws
pub mod Sizes
