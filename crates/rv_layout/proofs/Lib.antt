mod Examples
mod ItemLemmas
