pub mod lemmas
pub mod InitLemmas
pub mod PartLemmas
pub mod PieceLemmas
pub mod BegunLemmas
pub mod CompletedLemmas
pub mod GlobalLemmas
