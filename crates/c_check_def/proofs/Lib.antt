mod examples
pub mod lemmas
