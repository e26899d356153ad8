pub mod lemmas
mod Classes
mod Lookups
mod Rows
mod Settled
mod ReadSoFar
mod AtEnd
mod Steps
mod Defined
mod FormReads
mod NumberLemmas
mod Alone
mod CommandLemmas
mod CommandRowsLemmas
