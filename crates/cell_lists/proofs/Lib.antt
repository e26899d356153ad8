mod ListLemmas
mod LinkLemmas
mod StoreLemmas
mod KeyLemmas
