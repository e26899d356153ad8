pub mod lemmas
mod FileMapLemmas
mod FileNamesLemmas
mod OpenLemmas
mod LawsLemmas
mod UnknownLemmas
