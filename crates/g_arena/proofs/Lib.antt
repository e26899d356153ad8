mod ShownLemmas
mod RowLemmas
mod GoneLemmas
mod WalkLemmas
mod StoreLemmas
mod StepLemmas
