pub mod lemmas
mod Changes
mod ExitLemmas
