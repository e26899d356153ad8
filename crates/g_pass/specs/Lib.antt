pub mod Recipe
pub mod Sweep
pub mod Fast
pub mod Placed
pub mod MeaningLaws
pub mod StepLaws
pub mod Counts
