pub mod lemmas
mod Examples
mod MoveLemmas
mod PortLemmas
mod BranchLemmas
mod LoopLemmas
mod LabelLemmas
mod CodeLemmas
mod ChoiceLemmas
mod NodeLemmas
mod RoomLemmas
mod StepLemmas
mod ShapeLemmas
