pub mod Sweep
pub mod Answers
pub mod Kept
pub mod Replayed
pub mod Laws
