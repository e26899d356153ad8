mod LabelLemmas
mod MoreLemmas
mod WordLemmas
pub mod lemmas
mod LoopLemmas
mod ShapeLemmas
mod ArmLemmas
