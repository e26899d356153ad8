mod ChunksLemmas
mod DrawsLemmas
mod PrefixLemmas
