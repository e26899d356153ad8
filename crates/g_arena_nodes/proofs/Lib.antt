mod ListedLemmas
mod TreeLemmas
mod StepLemmas
