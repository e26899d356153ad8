pub mod lemmas
pub mod MachineLemmas
pub mod CountLemmas
pub mod JobStateLemmas
pub mod ResultLemmas
pub mod OpenLemmas
pub mod BeginningLemmas
pub mod OwnEventLemmas
mod OneJob
mod AllResults
