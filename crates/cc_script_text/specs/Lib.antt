pub mod Script
pub mod Spelled
pub mod Laws
pub mod ScriptRows
pub mod Taken
