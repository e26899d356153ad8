pub mod lemmas
mod Examples
mod Intervals
mod Lists
mod Order
mod Positions
mod Sets
mod Steps
mod Sweeping
mod ShareExamples
