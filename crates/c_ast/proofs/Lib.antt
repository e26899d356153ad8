mod examples
pub mod lemmas
pub mod StartLemmas
pub mod Bridges
pub mod Checks
pub mod Complete
pub mod Enough
pub mod Enumerations
pub mod Firsts
pub mod Follow
pub mod Local
pub mod Samples
pub mod Small
pub mod Sound
pub mod Trees
pub mod Viable
