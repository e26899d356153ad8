pub mod lemmas
mod LiteralLemmas
mod Marks
mod Begins
mod OperandLemmas
mod Counters
