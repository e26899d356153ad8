pub mod Nearer
pub mod Codes
pub mod RunLaws
pub mod Standing
pub mod Stores
pub mod Texts
