pub mod Sequences
pub mod Items
pub mod Globals
pub mod Layout
pub mod Conditions
pub mod Laws
