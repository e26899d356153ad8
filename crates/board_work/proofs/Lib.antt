mod Driven
mod SeatLemmas
mod CrewLemmas
mod HiringLemmas
pub mod lemmas
