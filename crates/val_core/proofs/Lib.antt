pub mod lemmas
pub mod WholeWord
mod Examples
