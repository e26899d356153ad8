mod Examples
mod ObjectLemmas
pub mod lemmas
mod ObjectSizes
mod SizeLemmas
