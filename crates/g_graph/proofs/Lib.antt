pub mod lemmas
mod Examples
mod KindLemmas
mod NestLemmas
mod ScopeMaps
mod StateLemmas
