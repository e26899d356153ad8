mod Rows
mod Spelling
pub mod lemmas
