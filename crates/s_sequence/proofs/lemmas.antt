pub mod Instrs
pub mod Named
