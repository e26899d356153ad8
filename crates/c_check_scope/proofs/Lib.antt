pub mod lemmas
pub mod ScopesLemmas
pub mod TagsLemmas
