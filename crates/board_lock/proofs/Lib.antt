pub mod lemmas
pub mod QueueLemmas
pub mod StepLemmas
pub mod SeatLemmas
pub mod PartLemmas
