pub mod lemmas
mod LoopLemmas
