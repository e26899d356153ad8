mod Along
mod Sound
mod Tables
pub mod lemmas
