mod TagLemmas
pub mod TypeLemmas
